use Rattle.std.proofs.Common.{rules, ◌≡◌, ◌∙◌}
use Rattle.words.specs.Briefs.{brief_of}
use Rattle.words.proofs.Briefs.{brief_get, brief_set, brief_one, brief_values, brief_settings, brief_ping}
use Rattle.words.proofs.command.Brief.of.Goals as goal

pub returns-clause-get : goal.returns-clause-get
returns-clause-get c =
    let exact : brief_of c.args.words.now ≡ c.of_words.result = Prim.search rules in λ is. brief_get c.args.words.now (exact ∙ is)

pub returns-clause-set : goal.returns-clause-set
returns-clause-set c =
    let exact : brief_of c.args.words.now ≡ c.of_words.result = Prim.search rules in λ is. brief_set c.args.words.now (exact ∙ is)

pub returns-clause-one : goal.returns-clause-one
returns-clause-one c =
    let exact : brief_of c.args.words.now ≡ c.of_words.result = Prim.search rules in λ verb is. brief_one c.args.words.now verb (exact ∙ is)

pub returns-clause-values : goal.returns-clause-values
returns-clause-values c =
    let exact : brief_of c.args.words.now ≡ c.of_words.result = Prim.search rules in λ is. brief_values c.args.words.now (exact ∙ is)

pub returns-clause-settings : goal.returns-clause-settings
returns-clause-settings c =
    let exact : brief_of c.args.words.now ≡ c.of_words.result = Prim.search rules in λ is. brief_settings c.args.words.now (exact ∙ is)

pub returns-clause-ping : goal.returns-clause-ping
returns-clause-ping c =
    let exact : brief_of c.args.words.now ≡ c.of_words.result = Prim.search rules in λ is. brief_ping c.args.words.now (exact ∙ is)
