-- Laws of bytes put into a lent buffer.
--     PutAtLaws   laws of bytes put into a lent buffer
pub mod PutAtLaws
