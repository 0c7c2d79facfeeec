-- The demands proved.
--     Kept             what a call leaves in record and slots, of a bed
--     UnscannedAlike   check 22 read two ways
--     CallSteps        one call
--     Scanning         feeds from a fresh scan
--     CallLists        lists of calls on a state that keeps a bed
--     NoneUnscanned    in a list of calls 22 is met by no call
--     Theorems         the demands proved
pub mod Kept
pub mod UnscannedAlike
pub mod CallSteps
pub mod Scanning
pub mod CallLists
pub mod NoneUnscanned
pub mod Theorems
