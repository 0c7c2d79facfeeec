-- By kind: row and column of the pixel, or its number itself.
use Rattle.bed.proofs.PlaceWords.{place_rows, place_fits, place_morton}
use Rattle.bed.proofs.Kind.place.Goals as goal

pub returns-in-Rows : goal.returns-in-Rows
returns-in-Rows c =
    let a = c.args in
    let p = c.requires in
    place_rows a.self a.order a.z _ _ c.in-Rows.is p.0 p.1 c.row_of.ensures c.column_of.ensures

pub returns-in-Morton : goal.returns-in-Morton
returns-in-Morton c =
    let a = c.args in
    place_morton a.self a.order _ c.in-Morton.is

pub overflow_add-result : goal.overflow_add-result
overflow_add-result c =
    let a = c.args in
    let p = c.requires in
    record {
      fits = place_fits a.self a.order a.z _ _ c.in-Rows.is p.0 p.1 c.row_of.ensures
          c.column_of.ensures;
    }
