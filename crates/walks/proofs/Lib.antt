pub mod BeginLaws
pub mod RowLaws
pub mod EndLaws
pub mod HeadedLaws
pub mod FirstLaws
pub mod BothLaws
