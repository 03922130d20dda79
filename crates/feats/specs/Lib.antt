pub mod comparisons
pub use Rattle.feats_answers.specs as feats_answers
