pub mod Samples
pub mod CutLaws
pub mod DueLaws
pub mod Uncut
pub mod LoadLaws
pub mod PlacesLaw
