pub mod Tables
pub mod Migrating
