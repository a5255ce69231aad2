pub mod Outcomes
pub mod PlainReading
pub mod PlainStatements
