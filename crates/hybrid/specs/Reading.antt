-- Pages that are read outside, whole or a piece of each, until no lookup is cold, and why that ends.
use Rattle.std.specs.Prelude.{◌≡◌, ◌⊎◌, ℕ, ◌+◌, ◌<◌, ◌≤◌, ◌||◌, ◌&&◌, Bool, false, cond, is_none, List, [], ◌∷◌, ◌++◌, Option, Some, None}
use Rattle.std.specs.Bool.{Decides}
use Rattle.std.specs.Str.{bytes_eq}
use Rattle.words.specs.declared.reply.Fault.{Fault}
use Rattle.words.specs.declared.reply.Fault.TheVariants as reply
use Rattle.hybrid.specs.declared.staged.ReadFault.{ReadFault}
use Rattle.hybrid.specs.declared.staged.ReadFault.TheVariants as fault
use Rattle.hybrid.specs.HybridLog.{HybridLog, Kept}
use Rattle.hybrid.specs.Staging.{StagedPage, IsStaged, IsRead, IsMissing}
use Rattle.hybrid.specs.declared.piece.Piece.{Piece}
use Rattle.hybrid.specs.declared.staged.ReadPage.{ReadPage}
use Rattle.hybrid.specs.declared.staged.ReadPage.TheVariants as read

-- the bytes that a read has left, and the piece that was read, if not all was
abbrev pub bytes_in : ReadPage → List ℕ
bytes_in (read.All page) = page
bytes_in (read.Part piece page) = page

abbrev pub piece_in : ReadPage → Option Piece
piece_in (read.All page) = None
piece_in (read.Part piece page) = Some piece

-- what was read by this receipt
abbrev pub staged_by : Kept → ReadPage → StagedPage
staged_by kept page = record { kept = kept; page = bytes_in page; piece = piece_in page }

-- a page was staged that was read by this receipt, whole
pub record HasStaged (kept : Kept) (old new : List StagedPage) : Type 0 where
  pub page : List ℕ
  pub is : new ≡ old ++ (record { kept = kept; page = page; piece = None }) ∷ []

-- a page was staged that was read by this receipt, whole or, where none of its identity was staged, a piece of it
pub record HasRead (kept : Kept) (old new : List StagedPage) : Type 0 where
  pub page : List ℕ
  pub piece : Option Piece
  pub is : new ≡ old ++ (record { kept = kept; page = page; piece = piece }) ∷ []
  pub more : (piece ≡ None) ⊎ (IsRead old kept.identity → ⊥)

abbrev pub MatchReadFault : ReadFault → Type 0 → Type 0 → Type 0
MatchReadFault fault.OutOfMemory P Q = P
MatchReadFault fault.DeviceFault P Q = Q

-- what keeps a request from its answer whose page was not read
abbrev pub fault_of : ReadFault → Fault
fault_of fault.OutOfMemory = reply.OutOfMemory
fault_of fault.DeviceFault = reply.DeviceFault

-- whether a page is staged that was read by a receipt of this identity
abbrev pub is_read : List StagedPage → List ℕ → Bool
is_read [] identity = false
is_read (s ∷ staged) identity = bytes_eq s.kept.identity identity || is_read staged identity

-- whether one is staged whole
abbrev pub is_staged : List StagedPage → List ℕ → Bool
is_staged [] identity = false
is_staged (s ∷ staged) identity = (bytes_eq s.kept.identity identity && is_none s.piece) || is_staged staged identity

-- how often the page of a receipt of this identity can still be read: no more once it was read whole, once if a piece of it was
-- read, and twice if nothing was
abbrev pub unread_at : List StagedPage → List ℕ → ℕ
unread_at staged identity = cond (is_staged staged identity) 0 (cond (is_read staged identity) 1 2)

-- how often the pages of these receipts can still be read
abbrev pub unread_of : List (Option Kept) → List StagedPage → ℕ
unread_of [] staged = 0
unread_of (None ∷ kept) staged = unread_of kept staged
unread_of (Some k ∷ kept) staged = unread_at staged k.identity + unread_of kept staged

-- how often the pages of the log can still be read
abbrev pub unread : HybridLog → List StagedPage → ℕ
unread p staged = unread_of p.kept staged

-- What is read makes the reads that are left no more, of each page and of a log, and a read of a page makes them fewer, if some are left. Some
-- are left of a page that is not staged whole.
pub record ReadingLaws : Type 0 where
  pub decides : (staged : List StagedPage) (identity : List ℕ) → Decides (is_staged staged identity) (IsStaged staged identity)
  pub no_more_at : (staged more : List StagedPage) (identity : List ℕ) → unread_at (staged ++ more) identity ≤ unread_at staged identity
  pub fewer_at : (kept : Kept) (staged later : List StagedPage) → HasRead kept staged later → (unread_at later kept.identity < unread_at staged kept.identity) ⊎ (unread_at later kept.identity ≡ 0)
  pub left_at : (staged : List StagedPage) (identity : List ℕ) → (IsStaged staged identity → ⊥) → 0 < unread_at staged identity
  pub no_more : (p : HybridLog) (staged more : List StagedPage) → unread p (staged ++ more) ≤ unread p staged
  pub fewer : (p : HybridLog) (staged later : List StagedPage) (number : ℕ) → (missing : IsMissing p staged number) → HasRead missing.kept staged later → unread p later < unread p staged
