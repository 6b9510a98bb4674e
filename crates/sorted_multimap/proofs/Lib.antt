pub mod SortedEntries
pub mod SpreadEntries
pub mod TakenMatches
pub mod CellValues
pub mod TxnKeys
pub mod NumberedValues
pub mod BucketEdits
