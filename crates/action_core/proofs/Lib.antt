mod Office
mod Actions
mod ExamplesTaking
mod ExamplesNested
mod ExamplesActions
mod ExamplesMiddleware
mod ExamplesRefused
pub mod Failing
pub mod Steps
mod KeptWrites
pub mod Kept
mod GoingOn
pub mod Composing
