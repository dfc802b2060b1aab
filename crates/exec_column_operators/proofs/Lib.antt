pub mod CodedTexts
pub mod MarkedZips
pub mod PlainParts
pub mod Scales
pub mod Words64
pub mod Zips
