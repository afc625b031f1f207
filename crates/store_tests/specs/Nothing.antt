-- What a part stands for that has no key.
use Rattle.std.specs.Prelude.{None, [], false}
use Rattle.gates.specs.Rule.{Meaning}
use Rattle.gates.specs.Pages.{Pages}
use Rattle.gates.specs.declared.gates.Gates.{Gates}
use Rattle.gates.specs.declared.gates.Pass.{Pass}
use Rattle.gates.specs.Passes.{IsResting}

-- no page: nothing was ever written
abbrev pub no_pages : Pages
no_pages =
    record {
      oldest = 0;
      first = 0;
      tail = 0;
      frames = 3;
      receipts = [];
      unlinked = 0;
      retired = 0;
      drained = 0;
      waits = [];
      refused = [];
      worn = false;
      unreleased = 0;
      places = 1;
    }

-- it reads as empty, has no marks, and needs no device
abbrev pub nothing : {T : Type 0} → Meaning T
nothing = record { trusted = Unit {0}; store = λ part key. None; marks = λ part key number. None; pages = λ part. no_pages }

-- a pass over such parts that holds nothing
abbrev pub Rests : {T : Type 0} → Gates T → Pass T → Type 0
Rests gates pass = IsResting (Unit {0}) gates pass
