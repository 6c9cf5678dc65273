pub mod Answering
pub mod Tables
pub mod Office
