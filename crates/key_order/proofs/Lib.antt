pub mod KeyLaws
pub mod MergeLaws
pub mod PairLaws
pub mod SharedLaws
pub mod InsertLaws
pub mod HalvesLaws
