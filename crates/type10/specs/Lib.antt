pub mod Ephemeris1Counts
pub mod Ephemeris2Counts
pub mod IntegrityCounts
