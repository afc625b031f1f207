-- What was written to a file.
use Rattle.std.specs.Prelude.{ℕ, List}
use Rattle.device.specs.declared.file.Written.{Written, Page, Again'}

-- the bytes of the page for which a receipt was given
abbrev pub page_of : Written → List ℕ
page_of (Page snapshot) = snapshot.value
page_of (Again' snapshot earlier) = page_of earlier
