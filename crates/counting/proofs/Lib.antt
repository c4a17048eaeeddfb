pub mod HaltLaws
