pub mod RiskText
pub mod Inner
