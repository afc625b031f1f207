use Rattle.std.proofs.Common.{◌-◌, ◌+◌, ◌∙◌, List, ℕ, ap, sym, take, drop, length}
use Rattle.std.proofs.lemmas.List.{take_rest}
use Rattle.words.specs.Stream.{front_from, Data}
use Rattle.resp_read.proofs.LookLemmas.{whole_word, line_leads}
use Rattle.resp_read.proofs.look.look_in.Goals as goal

pub returns-in-Whole : goal.returns-in-Whole
returns-in-Whole c =
    let bytes : List ℕ = c.args.bytes.now in
    let e = c.in-Number.ensures in
    whole_word c.args.size c.in-Number.value c.in-Number.width bytes (take (length bytes - c.in-Number.width) (drop c.in-Number.width bytes)) e.0 e.1 e.2 (take_rest bytes c.in-Number.width) c.in-Whole.ensures.0 c.in-Whole.ensures.1

pub returns-in-Part-data_end : goal.returns-in-Part-data_end
returns-in-Part-data_end c =
    let bytes : List ℕ = c.args.bytes.now in
    let e = c.in-Number.ensures in
    λ left. line_leads left c.args.size c.in-Number.value c.in-Number.width bytes e.0 e.1 e.2
    ∙ (ap (front_from (Data left (c.args.size + c.in-Number.value) c.in-Number.value)) (sym (take_rest bytes c.in-Number.width)) ∙ c.in-Part-data_end.ensures.1 left (c.args.size + c.in-Number.value))

pub returns-in-Missing : goal.returns-in-Missing
returns-in-Missing c =
    let bytes : List ℕ = c.args.bytes.now in
    let e = c.in-Number.ensures in
    λ left. line_leads left c.args.size c.in-Number.value c.in-Number.width bytes e.0 e.1 e.2
    ∙ (ap (front_from (Data left (c.args.size + c.in-Number.value) c.in-Number.value)) (sym (take_rest bytes c.in-Number.width)) ∙ c.in-Missing.ensures left (c.args.size + c.in-Number.value))
