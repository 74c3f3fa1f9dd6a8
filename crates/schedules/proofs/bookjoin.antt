pub mod SeasonLaw
