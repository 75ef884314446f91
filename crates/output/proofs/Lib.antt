pub mod OntoLaws
pub mod Outcomes
pub mod FillLaws
pub mod ContextText
