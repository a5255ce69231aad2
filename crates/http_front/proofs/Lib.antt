pub mod FrontLemmas
pub mod HeadLemmas
pub mod LawLemmas
