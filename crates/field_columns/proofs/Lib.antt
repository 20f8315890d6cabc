pub mod ListLaws
pub mod IdLaws
pub mod PairLaws
pub mod PairAtLaws
pub mod GoingLaws
pub mod ContentLaws
pub mod UsualLaws
