-- Laws of the exports.
--     ExportLaws   an answer with a record in numbers is the definition's
pub mod ExportLaws
