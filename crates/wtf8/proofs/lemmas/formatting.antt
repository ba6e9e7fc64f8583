pub mod DebugTexts
pub mod HexDigits
