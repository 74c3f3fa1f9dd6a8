pub mod OptionsLaws
