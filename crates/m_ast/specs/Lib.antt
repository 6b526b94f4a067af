pub mod Syntax
pub mod View
pub mod Whole
pub mod Items
pub mod PlainNames
pub mod PlainView
pub mod Members
pub mod inner
