pub mod Moving
mod RowByRow
pub mod PlaceSums
mod PlaceByPlace
