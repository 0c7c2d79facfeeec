-- Laws of the table of rights.
--     TableComputed   the worked lines, computed
--     TableLaws       the table by the numbers of its rows and columns
--     LoadLaws        what the checks of a table test
--     CountsLaws      what a table that passes is, and which table counts
--     CallLaws        the load, case by case
--     Promised        what loads are good for, proved
--     RiseLaws        own pixels and rising rights, whatever table is handed in
pub mod TableComputed
pub mod TableLaws
pub mod LoadLaws
pub mod CountsLaws
pub mod CallLaws
pub mod Promised
pub mod RiseLaws
