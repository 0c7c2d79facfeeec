-- Plans of claims.
pub mod Plan
