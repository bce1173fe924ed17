mod AgreeLaws
pub mod PairLaws
