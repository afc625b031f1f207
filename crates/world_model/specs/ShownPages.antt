-- Pages that a place of the device shows once it was released.
use Rattle.std.specs.Prelude.{ℕ, replicate}
use Rattle.words.specs.Store.{Bytes}
use Rattle.records.specs.declared.pages.TheConstants.{PAGE_SIZE}

-- the page of which each byte is this
unfoldable pub page_of : ℕ → Bytes
page_of byte = replicate PAGE_SIZE byte
