pub mod OrderedLaws
