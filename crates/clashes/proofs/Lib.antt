pub mod SegmentLaws
pub mod SharingLaws
pub mod ClashLaws
pub mod MeetLaws
