-- Files of pages, as contracts name them.
use Rattle.std.specs.Prelude.{◌≡◌, ◌≢◌, ◌≤◌, ℕ, ◌+◌, ◌*◌, ◌⊎◌, List, ◌∷◌, Bool, true, false}
use Rattle.records.specs.declared.pages.TheConstants.{PAGE_SIZE, NUMBER_SIZE}
use Rattle.records.specs.Page.{number_of}
use Rattle.device.specs.declared.file.FileReceipt.{FileReceipt}
use Rattle.device.specs.declared.file.FileDevice.{FileDevice}
use Rattle.device.specs.declared.places.PlaceNote.{PlaceNote}
use Rattle.device.specs.declared.places.PlaceNote.TheVariants.{Took, GaveBack, FoundNone}
use Rattle.device.specs.Written.{page_of}
use Rattle.device.specs.SystemCalls.{SystemCall, Write, Read, ReadPiece}

-- the page for which a receipt was given
abbrev pub page_shown : FileReceipt → List ℕ
page_shown receipt = page_of receipt.written

-- the place of that page in the file
abbrev pub place_of : FileReceipt → ℕ
place_of receipt = receipt.place

-- its number
abbrev pub receipt_number : FileReceipt → ℕ
receipt_number receipt = receipt.number

-- a piece of a page has the page's number
abbrev pub HasNumber : (from to : ℕ) → Type 0
HasNumber from to = (from ≡ 0) × (NUMBER_SIZE ≤ to)

-- the system was asked for a piece of the page at the place of a receipt; this is the page then, and whether all of the piece was read
abbrev pub piece_call : (receipt : FileReceipt) (from to : ℕ) (page : List ℕ) (done : Bool) → SystemCall
piece_call receipt from to page done = ReadPiece (place_of receipt * PAGE_SIZE + from) from to page done

-- a file serves no receipt: what lies in it may change at any time
abbrev pub IsServed : Type 0
IsServed = ⊥

module _ {R : Type 0} where
  -- how many calls of an opening have failed
  abbrev pub failures_of : FileDevice R → ℕ
  failures_of device = device.failures

  -- how often it was asked to write
  abbrev pub writes_of : FileDevice R → ℕ
  writes_of device = device.writes

  -- how often it was asked to read
  abbrev pub reads_of : FileDevice R → ℕ
  reads_of device = device.reads

  -- how many receipts it has taken back
  abbrev pub releases_of : FileDevice R → ℕ
  releases_of device = device.releases

  -- what it did with the list of places, the newest first
  abbrev pub notes_of : FileDevice R → List PlaceNote
  notes_of device = device.notes

  -- what the system was asked of the file through it, the newest first
  abbrev pub asked_of : FileDevice R → List SystemCall
  asked_of device = device.file

  -- this page was not written, and no place stays taken: none was found, and the system was not asked; or the system did not take the page at the place
  -- that was taken, which was given back
  abbrev pub WroteNone : (page : List ℕ) (before later : FileDevice R) → Type 0
  WroteNone page before later =
      ((notes_of later ≡ FoundNone ∷ notes_of before) × (asked_of later ≡ asked_of before))
      ⊎ ((place : ℕ) × (notes_of later ≡ GaveBack place ∷ Took place ∷ notes_of before) × (asked_of later ≡ Write (place * PAGE_SIZE) page false ∷ asked_of before))

  -- no page was given for this receipt: the system did not read one at its place, or it read this one, which has another number
  abbrev pub GaveNone : (receipt : FileReceipt) (page : List ℕ) (before later : FileDevice R) → Type 0
  GaveNone receipt page before later =
      (asked_of later ≡ Read (place_of receipt * PAGE_SIZE) page false ∷ asked_of before)
      ⊎ ((asked_of later ≡ Read (place_of receipt * PAGE_SIZE) page true ∷ asked_of before) × (number_of page ≢ receipt_number receipt))

  -- no piece was given for this receipt: the system did not read it at its place, or it read one that has a page's number, and another one
  abbrev pub GaveNoPiece : (receipt : FileReceipt) (from to : ℕ) (page : List ℕ) (before later : FileDevice R) → Type 0
  GaveNoPiece receipt from to page before later =
      (asked_of later ≡ piece_call receipt from to page false ∷ asked_of before)
      ⊎ ((asked_of later ≡ piece_call receipt from to page true ∷ asked_of before)
      × HasNumber from to × (number_of page ≢ receipt_number receipt))
