pub mod RiskLaws
pub mod Decides
