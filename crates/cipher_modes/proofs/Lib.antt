pub mod IgeLaws
pub mod CtrLaws
