pub mod Fitting
pub mod InserterLaws
pub mod InterleaverLaws
pub mod LeadLaws
pub mod Places
pub mod StandardLaws
pub mod Tables
