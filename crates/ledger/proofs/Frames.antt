-- The former name of `Under`.
pub use Rattle.ledger.proofs.Under.{under_has}
