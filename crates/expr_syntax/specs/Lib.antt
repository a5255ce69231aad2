pub mod Syntax
pub mod Shown
pub mod ShownStatements
pub mod Forms
pub mod Stmts
