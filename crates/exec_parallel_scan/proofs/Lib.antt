pub mod Chunks
pub mod Narrowing
pub mod PartRows
pub mod StageRows
pub mod ByExpressions
pub mod MergedParts
