-- What the loops of the rounds carry.
pub mod First
pub mod Places
pub mod Swept
