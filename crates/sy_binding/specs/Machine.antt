pub mod ReadingBindings
