-- Laws of what can be put at once.
--     Suited      a band's bytes looked at before it is put
--     Stretched   and those of a stretch
pub mod Suited
pub mod Stretched
