pub mod ShutFrontInside
