-- Fresh scans and feeds.
pub mod FreshScan
pub mod Feed
