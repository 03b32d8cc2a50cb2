pub mod NoNumbers
pub mod NumbersBegin
pub mod NumbersWithin
pub mod NumbersHoldDigits
