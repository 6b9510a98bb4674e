pub mod Stages
pub mod RoundsOf
pub mod LawfulCascades
