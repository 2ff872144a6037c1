-- What the C functions promise: the number each answers, and what each lent buffer holds after. Opening a burst, and CCM and AES
-- called alone, promise what the operations below do.
pub mod Answer
pub mod Headers
pub mod Frames
pub mod SealingLaw
pub mod Commands
pub mod Inbound
pub mod Recovery
