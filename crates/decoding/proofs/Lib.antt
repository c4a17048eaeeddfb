pub mod DecodeLaws
pub use Rattle.rows.proofs.RoomLaws
pub use Rattle.standing.proofs.AcceptedLaws
