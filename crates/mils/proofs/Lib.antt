-- Laws of positions in mils.
--     CallComputed   document 02's own lines and the edges, computed
--     MilsLaws       hundredths of a mil and pixels
--     FormLaws       the form of a text, part by part
--     TextLaws       the text of a position has the form and names the position
--     CallLaws       the calls by how their checks end
--     Promised       the promises, proved
pub mod CallComputed
pub mod MilsLaws
pub mod FormLaws
pub mod TextLaws
pub mod CallLaws
pub mod Promised
