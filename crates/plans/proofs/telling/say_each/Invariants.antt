use Rattle.std.proofs.Common.{◌≡◌, ◌+◌, ◌≤◌, ◌++◌, length, vec_len, vec_capacity}
use Rattle.std.specs.List.{flat_map}
use Rattle.words.specs.Answers.{items_of}
use Rattle.words.specs.Commands.{keys_of_all}
use Rattle.words.specs.Encoding.{item_encoding}
use Rattle.words.specs.Spelling.{header}
use Rattle.hybrid.specs.Staging.{AreRight}
use Rattle.transact.specs.Tables.{AreThere, joined}
use Rattle.shards.specs.Shards.{shard_meaning}
use Rattle.plans.specs.Telling.{AreGets}
use Rattle.plans.proofs.telling.say_each.Given as goal

abbrev pub invariant-loop-first : goal.invariant-loop-first
invariant-loop-first g l = record {
  is_open : g.P.Parts.is_open l.parts;
  keeps : g.P.Parts.keeps l.fn.parts l.parts;
  same : g.P.Parts.part_of l.parts ≡ g.P.Parts.part_of l.fn.parts;
  there : AreThere (g.P.Parts.stripes_of l.fn.parts) (g.P.Parts.part_of l.fn.parts) (keys_of_all l.left);
  gets : AreGets l.left;
  room : l.limit ≤ vec_capacity l.out;
  within : vec_len l.out ≤ l.limit;
  text : l.out.items ≡ l.fn.out.items ++ (header 42 (length l.commands) ++ flat_map item_encoding l.said);
  count : length l.said + length l.left ≡ length l.commands;
  told : g.R.Shows.is_honest × AreRight l.staged
      → l.said ++ items_of (joined (shard_meaning g.R.Shows.is_steady) (g.P.Parts.stripes_of l.fn.parts) (g.P.Parts.part_of l.fn.parts)) (keys_of_all l.left)
      ≡ items_of (joined (shard_meaning g.R.Shows.is_steady) (g.P.Parts.stripes_of l.fn.parts) (g.P.Parts.part_of l.fn.parts)) (keys_of_all l.commands);
}

abbrev pub decreases-loop-first : goal.decreases-loop-first
decreases-loop-first g l = length l.left
