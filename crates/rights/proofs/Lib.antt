-- Laws of placement rights.
--     RightsComputed   the worked lines, computed
--     RightsLaws       the offered call by lookup's answer
--     Promised         what the call promises of tables, proved
pub mod RightsComputed
pub mod RightsLaws
pub mod Promised
