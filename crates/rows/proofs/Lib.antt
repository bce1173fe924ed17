pub mod KeptLaws
pub mod FlatLaws
pub mod RowLaws
pub mod ReadLaws
