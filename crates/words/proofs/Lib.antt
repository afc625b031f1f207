pub mod Named
pub mod Bounded
pub mod Briefs
pub mod Requests
pub mod Places
pub mod Spelled
pub mod Lengths
pub mod Faults
pub mod Apart
pub mod Parts
pub mod Streams
mod PlaceTests
mod Rows
mod LineRows
mod CommandRows
mod NumberRows
mod AnswerRows
mod LimitRows
mod HistoryRows
mod WatchRows
mod SessionRows
mod TranscriptRows
mod StripeRows
mod EncodingRows
mod StreamRows
pub mod Beginnings
pub mod SpelledValues
pub mod Decimals
