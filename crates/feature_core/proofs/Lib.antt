pub mod PathLemmas
pub mod Present
pub mod Answered
pub mod Reaches
pub mod WayNumbers
pub mod OpenWayLemmas
pub mod Released
pub mod ReleaseTables
pub mod ReleaseSteps
pub mod PackedLemmas
pub mod ChosenEdgeLemmas
pub mod DirectedLemmas
pub mod NameLemmas
pub mod PairReach
pub mod ChoiceLemmas
pub mod Determined
pub mod SameData
pub mod DefaultLemmas
pub mod OfferLemmas
pub mod LinkNumbers
pub mod OfferNames
pub mod GraphContent
-- lemmas that crates above cite
pub use Rattle.feature_edges.proofs.Places as Places
pub use Rattle.feature_edges.proofs.AddsLemmas as AddsLemmas
pub use Rattle.feature_edges.proofs.PartLemmas as PartLemmas
pub use Rattle.feature_edges.proofs.LabelLemmas as LabelLemmas
pub use Rattle.feature_edges.proofs.PushLemmas as PushLemmas
pub use Rattle.feature_edges.proofs.Ranks as Ranks
pub use Rattle.feature_edges.proofs.NodeLabels as NodeLabels
pub use Rattle.feature_edges.proofs.BuildLemmas as BuildLemmas
pub use Rattle.feature_edges.proofs.WeakLemmas as WeakLemmas
pub use Rattle.feature_edges.proofs.SoundEnds as SoundEnds
