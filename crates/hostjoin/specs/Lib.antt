pub mod hostfeed
