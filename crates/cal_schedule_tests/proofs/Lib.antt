pub mod IsoWeeks
