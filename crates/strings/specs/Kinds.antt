-- Commands that only read, and commands that may write.
use Rattle.words.specs.declared.command.Command.{Command}
use Rattle.words.specs.declared.command.Command.TheVariants.{Ping, Echo, Get, Set, SetGet, SetNx, GetSet, GetDel, StrLen, Exists, Del, Append, SetRange, GetRange, Add, Subtract, MGet, MSet, MSetNx, Rename, Session, Bad}

-- the command writes no key, whatever the store
abbrev pub OnlyReads : Command → Type 0
OnlyReads (Ping text) = Unit {0}
OnlyReads (Echo text) = Unit {0}
OnlyReads (Get key) = Unit {0}
OnlyReads (StrLen key) = Unit {0}
OnlyReads (Exists keys) = Unit {0}
OnlyReads (GetRange key start end) = Unit {0}
OnlyReads (MGet keys) = Unit {0}
OnlyReads (Session command) = Unit {0}
OnlyReads (Bad refusal) = Unit {0}
OnlyReads _ = ⊥

-- the command may write a key
abbrev pub MayWrite : Command → Type 0
MayWrite (Set key value when) = Unit {0}
MayWrite (SetGet key value when) = Unit {0}
MayWrite (SetNx key value) = Unit {0}
MayWrite (GetSet key value) = Unit {0}
MayWrite (GetDel key) = Unit {0}
MayWrite (Del keys) = Unit {0}
MayWrite (Append key value) = Unit {0}
MayWrite (SetRange key offset value) = Unit {0}
MayWrite (Add key n) = Unit {0}
MayWrite (Subtract key n) = Unit {0}
MayWrite (MSet settings) = Unit {0}
MayWrite (MSetNx settings) = Unit {0}
MayWrite (Rename key name) = Unit {0}
MayWrite _ = ⊥
